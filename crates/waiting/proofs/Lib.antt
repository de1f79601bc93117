mod Trying
mod Rows
