pub mod PlanRefusal
pub mod Ending
pub mod Statuses
