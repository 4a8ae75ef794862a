-- Saved plants: tagged fields, what a file means, what the reader and the writer do; edition 1, and what the converter does; and what the code
-- answers on its way. The last four are what is claimed of files, of saved plants and of converted ones, and examples.
pub mod Bytes
pub mod Fields
pub mod Plant
pub mod Order
pub mod Load
pub mod Save
pub mod Edition1
pub mod Convert
pub mod Reading
pub mod Files
pub mod Restoring
pub mod Converting
pub mod Examples
