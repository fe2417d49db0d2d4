pub mod Told
pub mod Sink
pub mod MemFiles
pub mod MemSink
pub mod Adapters
