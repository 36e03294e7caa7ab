-- The definitions that the contracts of `settling` cite, beside the moves of `model` and the proper states of `moves`.
pub mod Settling
