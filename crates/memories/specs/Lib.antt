-- The memories that a host lends.
pub mod Units
pub mod Lengths
