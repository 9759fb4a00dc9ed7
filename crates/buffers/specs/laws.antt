pub mod KeepLaws
