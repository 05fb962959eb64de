-- Laws of lines read back over bytes.
pub mod BytesLaws
