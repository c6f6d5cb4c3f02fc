mod EdgesSeen
mod OneAnswer
mod OneListing
mod OneResolution
mod OneScene
mod ReadListings
mod ReadScenes
mod ReadTexts
