pub mod Completion
pub mod Firsts
pub mod UnderWay
pub mod Arrivals
