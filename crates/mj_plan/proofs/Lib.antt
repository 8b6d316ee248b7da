mod FirstPlaces
mod Indexes
