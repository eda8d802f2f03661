pub mod CatalogueParts
