pub mod DigestLines
pub mod Explanations
pub mod ReadableLines
pub mod RootLines
pub mod TypeLines
pub mod Verdicts
