pub mod AssembledLaws
pub mod AttrForm
pub mod FormLaws
pub mod EachLaws
pub mod PlaceLaws
pub mod CodeLaws
pub mod ClassLaws
