pub mod Wear
