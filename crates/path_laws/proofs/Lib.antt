pub mod Alike
pub mod KeyOrders
pub mod LeastKeys
pub mod Meetings
pub mod PathTables
pub mod Picks
pub mod ProductCosts
pub mod Products
