pub mod StepLaws
pub mod DoorLaws
