pub mod Table
pub mod Numbers
