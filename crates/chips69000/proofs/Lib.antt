-- What a C program gets of a write (Words). The other folders have a function's proof each.
pub mod Words
