pub mod LabelsDiffer
pub mod Outside
pub mod StatementRows
