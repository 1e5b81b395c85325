pub mod Layouts
pub mod ReportTexts
pub mod FlowTexts
