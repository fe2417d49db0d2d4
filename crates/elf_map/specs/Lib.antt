pub mod Number
pub mod Program
pub mod Elf
pub mod Results
