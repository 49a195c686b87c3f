pub mod Characters
mod Items
