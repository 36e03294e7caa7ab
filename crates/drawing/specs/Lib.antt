-- What the contracts say of lent words.
pub mod Sure
