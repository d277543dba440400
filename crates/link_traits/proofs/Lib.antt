pub mod BytesOf
mod Sending
