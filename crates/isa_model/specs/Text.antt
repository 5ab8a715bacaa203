-- Programs as text.
pub mod CanonicalText
