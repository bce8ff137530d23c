pub mod Laws
pub mod Bodies
pub mod Walk
pub mod Breaking
pub mod Rising
pub mod Allowed
pub mod Fewest
