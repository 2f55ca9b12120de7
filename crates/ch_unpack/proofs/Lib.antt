pub mod FirstLinkUnfolds
pub mod LinksToArcs
