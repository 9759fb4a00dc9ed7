pub mod AgesLaws
