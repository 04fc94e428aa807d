pub mod Weeks
pub mod GpsTimes
pub mod GpsLaws
