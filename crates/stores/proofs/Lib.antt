-- Laws of what a terminal holds.
pub mod CertificateLaws
pub mod LoopLaws
pub mod ValidLaws
