pub mod Opcodes
pub mod Xor
