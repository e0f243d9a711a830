pub mod Listed
pub mod KeyOrders
pub mod Passed
pub mod Opening
pub mod Joined
pub mod Sides
pub mod Same
pub mod ObjectPods
pub mod Both
pub mod Rules
mod Meetings
