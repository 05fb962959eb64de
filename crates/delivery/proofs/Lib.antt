-- Laws of the lent slice.
pub mod DeliveryLaws
