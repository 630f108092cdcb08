mod Counting
mod Laws
mod Numbering
mod Parts
mod Rounding
