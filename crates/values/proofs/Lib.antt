mod Machine
mod Filled
