pub mod Table
pub mod TableNodes
pub mod IdAgreement
