pub mod Rules
pub mod Entries
pub mod Padding
pub mod GuidText
pub mod StringsView
pub mod Units
pub mod UserView
