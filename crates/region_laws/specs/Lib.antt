pub mod Heap
pub mod Standing
pub mod Calls
pub mod Laws
