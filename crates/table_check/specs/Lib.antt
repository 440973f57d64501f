pub mod Forms
pub mod Rows
pub mod Reading
pub mod Checked
pub mod Walk
pub mod Numbers
pub mod Printed
pub mod Laws
