pub mod Text
pub mod Named
pub mod Call
pub mod Printed
pub mod SizeLines
pub mod Layout
