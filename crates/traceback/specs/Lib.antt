pub mod Preorder
pub mod Listing
