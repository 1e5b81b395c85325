pub mod Declarations
pub mod Statements
pub mod FewQuotients
pub mod Files
pub mod DeclaredNumbers
pub mod LawsOfPrograms
pub mod LawsOfNames
