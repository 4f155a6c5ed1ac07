pub mod Centimetres
