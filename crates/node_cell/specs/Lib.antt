pub mod Views
pub mod Board
pub mod Courses
pub mod Standing
pub mod Deliveries
pub use Rattle.driver_steps.specs.OneSeat
pub use Rattle.driver_steps.specs.Seats
