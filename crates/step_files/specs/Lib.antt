pub mod Cubes
pub mod Files
pub mod Laws
pub mod Products
pub mod Tasks
