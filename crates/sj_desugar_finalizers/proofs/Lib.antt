mod Once
mod Rows
mod Shapes
