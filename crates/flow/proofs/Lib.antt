mod Joins
mod Meets
mod Ringed
mod Visiting
