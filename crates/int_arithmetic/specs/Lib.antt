pub mod BigInts
pub mod Decimals
pub mod Longs
pub mod Modulo
pub mod Numbers
pub mod Signed
