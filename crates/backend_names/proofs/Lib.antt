pub mod Primes
pub mod Names
