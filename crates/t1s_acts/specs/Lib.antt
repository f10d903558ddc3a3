pub mod Upcoming
