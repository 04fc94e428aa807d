pub mod WordLaws
pub mod CalendarLaws
pub mod CalendarOfStamps
mod StampWords
