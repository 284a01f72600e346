pub mod Laying
pub mod TempoMap
