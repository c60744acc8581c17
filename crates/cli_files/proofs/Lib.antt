pub mod Beginning
pub mod HeadLemmas
