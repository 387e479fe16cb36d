pub mod AlongLemmas
pub mod FirstLemmas
pub mod PartLemmas
