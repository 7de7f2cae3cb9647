mod Digits
mod Strike
