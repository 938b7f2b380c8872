pub mod RunLaws
pub mod RepairLaws
