pub mod TextLaws
pub mod AppendLaws
pub mod PageLaws
pub mod DecimalLaws
