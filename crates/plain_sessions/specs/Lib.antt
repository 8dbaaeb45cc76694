pub mod Arrivals
pub mod Pieces
pub mod Transactions
pub mod Histories
pub mod Units
pub mod Laws
