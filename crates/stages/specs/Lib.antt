-- The root of stages' specs.
pub mod Run
pub mod Stages
