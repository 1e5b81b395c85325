pub mod Units
pub mod CertificateNodes
pub mod Drafts
pub mod DraftRelations
